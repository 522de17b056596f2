-- The best clearing exists, is unique, has the greatest welfare (BestClearing), and is given by cuts (ClosedBest); its prices do not depend on its flows
-- (PoolPrice).
-- A law is named after what it is about; its ending says what is said: _is (it equals another form), _same (equal numbers give
-- an equal result), _ext (only what is below a count matters), _one (one term of a sum), _small or _le (a bound).
-- Numbers, tests and orders.
pub mod Choices
pub mod Integers
pub mod StrictOrder
pub mod Subsets
-- A network: cuts, ranks, flows line by line, the greatest used amounts and their welfare.
pub mod Network
pub mod Rank
pub mod Balance
pub mod Slacks
pub mod Flows
pub mod Greatest
pub mod Welfare
pub mod Bounds
pub mod Reach
-- Of a book, in document 01's words.
pub mod MeritOrder
pub mod Grid
pub mod Hundredths
pub mod BookNetwork
pub mod FlowOrder
pub mod Dictionary
pub mod SameClearing
pub mod CutClearing
pub mod BestClearing
pub mod FeasibleNumbers
pub mod Optimal
pub mod Dearer
-- The numbers that a plan computes.
pub mod ClosedForms
pub mod ClosedBest
-- Which pools reach which, and the pool price.
pub mod Reachable
pub mod PoolPrice
