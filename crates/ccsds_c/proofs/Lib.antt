pub mod PrimaryHeaderLemmas
pub mod SharedLemmas
