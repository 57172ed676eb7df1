pub mod FieldNumbers
pub mod FieldsRead
pub mod RowsRead
pub mod ReadCommands
pub mod ReadAnswers
pub mod FittingData
pub mod DeedsInOrder
pub mod OwnPieces
pub mod OfferedImage
pub mod OfferedOne
mod WorkedUpdate
mod AllApplied
mod PieceParts
mod Numbers
mod ManyFields
mod PackageSteps
mod PackageParts
mod PackagesRead
mod PartsRead
mod IdentifiersRead
mod IdentifiersKept
mod ParametersRead
mod ParametersKept
mod RecordsApply
