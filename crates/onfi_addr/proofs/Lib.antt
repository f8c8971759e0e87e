pub mod BitCounts
pub mod FaultLemmas
pub mod RowLemmas
