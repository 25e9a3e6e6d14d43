-- What `to_string` returns.
-- Private.
pub use Rattle.json5_write.specs.WholeOutputs.{IsText, StopsAs, RefusesToString}
