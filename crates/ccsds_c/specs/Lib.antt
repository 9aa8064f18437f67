pub mod PrimaryHeader
pub mod Shared
