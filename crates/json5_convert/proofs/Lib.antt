-- Lists the lemmas about documents that are spelled anew.
pub mod AnewSteps
pub mod AnewTokens
pub mod CommentsPassed
pub mod DocumentsRead
pub mod FaultsLast
pub mod Kept
pub mod LinesJoined
pub mod MadeAnew
pub mod OneComments
pub mod PlainKept
pub mod SourcesKept
pub mod StreamsRead
pub mod StreamsRefused
pub mod StreamsTaken
pub mod TomlDates
pub mod TomlHeld
pub mod TomlParts
