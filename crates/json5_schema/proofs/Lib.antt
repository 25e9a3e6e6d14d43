-- Lists the lemmas about schemas.
mod Anchoring
mod Conforming
pub mod FormatsKnown
mod Knowing
mod Named
mod Remainders
mod OneVerdict
mod Parts
mod Shaping
mod PatternsRead
mod Evaluating
mod Latest
mod Distinct
mod Refusing
mod FewDigits
mod KeywordGroups
mod WholeOrders
mod FoundLast
mod Additional
mod NumberForms
mod ValueForms
mod FormSteps
