-- Lists the lemmas about layouts and JSON.
pub mod ReadBack
pub mod Spelled
pub mod Documents
pub mod JsonNumbers
pub mod JsonWritten
pub mod JsonEscapesSplit
pub mod PiecesPut
pub mod ItemsLaid
pub mod BlanksPut
pub mod TextsReturned
pub mod DefaultLayout
pub mod JsonRuns
pub mod TextsBack
pub mod WritableLists
pub mod Refusals
