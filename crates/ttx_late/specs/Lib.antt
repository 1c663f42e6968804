pub mod LateReceivers
pub mod SeenLate
pub mod Laws
pub mod Followed
pub mod LateVerdicts
pub mod LateVerdictLines
pub mod CertifyingLate
