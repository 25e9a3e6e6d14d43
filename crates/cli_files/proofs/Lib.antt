-- Lists the lemmas of what the programs share.
pub mod FoldersOpened
pub mod LinesJoined
pub mod NamesEnded
pub mod NamesShown
pub mod PiecesJoined
pub mod Refusals
pub mod Statuses
