-- What contracts see of a serializer, and what a call does to it.
-- A promise rests on this.
pub use Rattle.json5_write.specs.Writes.{SerializerState, Wrote, Stopped, Broke, Idled}
pub use Rattle.json5_write.specs.Writes.{Refusal, by_key, by_depth, by_writer, by_refusal, by_none, refusal_of, RefusesBy, RefusesWrite}
pub use Rattle.json5_write.specs.Writes.{Writes, WritesTree, fresh_within, fresh, ended_within, ended, at_depth, after_closing, Reaches}
