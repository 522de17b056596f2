-- What clearing gives, the amounts on its sheet, what the plan leaves, that it can be opened, demand 3, and the same of the column plan.
pub mod Given
pub mod Amounts
pub mod PlanClears
pub mod Opens
pub mod Demand3
pub mod ColumnDemand3
