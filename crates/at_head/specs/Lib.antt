pub mod HeadWords
