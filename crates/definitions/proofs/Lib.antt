-- Computed facts that hold the definitions to the documents.
pub mod Cases
pub mod TableFacts
pub mod ClearingFacts
pub mod PoolPriceFacts
pub mod OrderFacts
pub mod PlanFacts
pub mod ColumnFacts
pub mod OutcomeFacts
pub mod SettleFacts
pub mod ViewFacts
pub mod CheckFacts
pub mod RunningSumFacts
