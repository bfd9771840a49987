pub mod Execution
pub mod Executions
pub mod Threads
pub mod Runs
pub mod Laws
pub mod AnswerExamples
pub mod Types
