pub mod Clauses
pub mod Followers
pub mod Following
pub mod Lines
pub mod Members
pub mod Reports
