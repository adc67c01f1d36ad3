-- Laws of the steps: how a step is kept, pushed and put back, and the records that the steps lead back to.
pub mod Parts
pub mod History
