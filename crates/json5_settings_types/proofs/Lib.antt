-- Lemmas of this crate.
pub mod SumsRead
pub mod SumLaws
pub mod SumsWritten
pub mod DurationTexts
pub mod Amounts
pub mod SizeTexts
pub mod ReadTypes
pub mod AddressTexts
pub mod TwinsSeen
pub mod KeysOnce
pub mod FloatsFound
pub mod Meanings
pub mod FieldsMade
pub mod NamesTaken
pub mod TextsGathered
pub mod SetsWritten
pub mod RestRead
