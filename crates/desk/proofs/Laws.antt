-- Laws of the desk: that the step of an edit is kept, the history that a desk stands for, and values.
pub mod Calls
pub mod Model
pub mod Values
