-- The cost call: what an assignment costs.
pub mod Costing
pub mod Calls
pub mod Order
pub mod Empty
