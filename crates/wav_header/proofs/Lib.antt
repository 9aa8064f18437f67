pub mod HeaderLemmas
mod HeaderRows
