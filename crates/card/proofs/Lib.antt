-- reading
pub mod FieldValues
pub mod ReadParts
pub mod Rest
pub mod RestGenerators
pub mod Judging
pub mod RestChecks
pub mod CheckLoops
pub mod WholeCard
pub mod RefusedCard
-- accepted exactly when
pub mod Stores
pub mod CardTables
pub mod Standing
pub mod Orthogonality
pub mod WholeReading
pub mod Limits
pub mod LayoutLaws
pub mod Laid
pub mod LaidBack
pub mod ChecksBack
pub mod CardLength
pub mod Guaranteed
pub mod FieldsBack
pub mod Defaults
pub mod Acceptance
