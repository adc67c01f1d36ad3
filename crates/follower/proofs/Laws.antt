-- Laws of the follower.
pub mod Count
pub mod Read
pub mod Again
pub mod Follow
