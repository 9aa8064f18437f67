pub mod Carries
pub mod CarriesLaws
pub mod CodeWord
pub mod Room
pub mod Sink
pub mod WriteTable
pub mod Writer
