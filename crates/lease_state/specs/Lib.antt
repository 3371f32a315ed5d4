pub mod LeaseTable
pub mod LeaseFaults
pub mod LeaseAppends
pub mod LeaseLaws
pub mod LeaseId
