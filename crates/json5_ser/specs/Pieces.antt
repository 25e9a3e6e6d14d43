-- What a writer does with a piece.
-- Private.
pub use Rattle.json5_write.specs.Pieces.{AppendsFront, Pushes}
