mod Digits
mod Sits
mod FieldsOne
mod RecordSame
mod RecordOne
mod RecordOr
mod Laying
mod ArchiveSame
mod ArchiveOr
pub mod ArchiveOne
pub mod Fine
pub mod Four
