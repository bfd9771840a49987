pub mod InlineReads
