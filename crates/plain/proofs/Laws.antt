pub mod Solve
pub mod Judge
pub mod Try
pub mod Repair
