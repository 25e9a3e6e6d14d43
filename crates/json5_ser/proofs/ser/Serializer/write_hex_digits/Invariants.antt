use Rattle.std.proofs.Common.{◌≡◌, false}
use Rattle.std.specs.Slice.Iter.{chunks_rest, chunks_size}
use Rattle.hex.specs.Hex.{encode_lower}
use Rattle.json5_write.specs.Out.{piece}
use Rattle.json5_write.proofs.OutputsJoined.{Reaches}
use Rattle.json5_ser.proofs.ser.Serializer.write_hex_digits.Given as goal

abbrev pub invariant-loop-chunk : goal.invariant-loop-chunk
invariant-loop-chunk g l = record {
  can_next : (goal.iterator-loop-chunk g).can_next l.chunk-iterator;
  is_finite : (goal.iterator-loop-chunk g).is_finite l.chunk-iterator;
  live : l.self.failed ≡ false;
  size : chunks_size l.chunk-iterator ≡ 32;
  reaches : Reaches (piece (encode_lower l.fn.bytes)) l.fn.self l.self (piece (encode_lower (chunks_rest l.chunk-iterator)));
}
