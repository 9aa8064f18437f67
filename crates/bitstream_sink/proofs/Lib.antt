pub mod BestLemmas
pub mod CountLemmas
pub mod RecorderLemmas
