-- What contracts see of bytes that are written as a string.
-- A promise rests on this.
use Rattle.std.specs.Prelude.{ℕ, List}
use Rattle.json5_types.specs.declared.byte_buf.ByteBuf.{ByteBuf}

abbrev pub bytes_of : ByteBuf → List ℕ
bytes_of b = b.bytes.items
