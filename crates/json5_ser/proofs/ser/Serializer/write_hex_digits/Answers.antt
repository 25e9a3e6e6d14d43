use Rattle.std.proofs.Common.{rules, ◌≡◌, sym, ◌∙◌, subst}
use Rattle.std.specs.Str.{IsUtf8}
use Rattle.std.specs.Slice.Iter.{chunks_rest}
use Rattle.hex.specs.Hex.{encode_lower}
use Rattle.json5_write.specs.Out.{piece}
use Rattle.json5_write.proofs.OutputsJoined.{Reaches, Reaches-none}
use Rattle.json5_ser.proofs.HexPieces.{hex_utf8, decodes, digits_next, digits_exit, digits_all}
use Rattle.json5_ser.proofs.ser.Serializer.write_hex_digits.Goals as goal

pub loop-chunk-init : goal.loop-chunk-init
loop-chunk-init g c =
    let all : chunks_rest c.into_iter-chunk-iterator.result ≡ c.args.bytes.now = search rules in
    record {
      can_next = search rules;
      is_finite = tt;
      live = c.in_ok-check_not_failed.ensures.live;
      size = search rules;
      reaches = subst (λ l. Reaches (piece (encode_lower l)) c.args.self.now c.args.self.now (piece (encode_lower (chunks_rest c.into_iter-chunk-iterator.result)))) all (Reaches-none _ _);
    }

pub unwrap-requires-in-loop-chunk : goal.unwrap-requires-in-loop-chunk
unwrap-requires-in-loop-chunk g c =
    let digits = rw c.unwrap.ensures at c.encode_to_slice-encoded.ensures.written in
    decodes _ _ _ (subst IsUtf8 (sym digits) (hex_utf8 c.in-Some.chunk.now)) c.from_utf8-text.ensures.cases

pub loop-chunk-preserved : goal.loop-chunk-preserved
loop-chunk-preserved g c =
    let steps = c.in-Some.ensures.steps in
    let digits = rw c.unwrap.ensures at c.encode_to_slice-encoded.ensures.written in
    let text = rw c.unwrap-in-loop-chunk.ensures at c.from_utf8-text.ensures.cases in
    record {
      can_next = search rules;
      is_finite = tt;
      live = c.in_ok-put.ensures.failed;
      size = steps.0 ∙ c.loop-chunk.invariant.size;
      reaches = digits_next _ _ _ _ _ _ _ _ steps.1.0 (text.0 ∙ digits) c.loop-chunk.invariant.reaches c.in_ok-put.ensures;
    }

pub returns-in_err-put : goal.returns-in_err-put
returns-in_err-put g c =
    let steps = c.in-Some.ensures.steps in
    let digits = rw c.unwrap.ensures at c.encode_to_slice-encoded.ensures.written in
    let text = rw c.unwrap-in-loop-chunk.ensures at c.from_utf8-text.ensures.cases in
    digits_exit _ _ _ _ _ _ _ _ _ _ steps.1.0 (text.0 ∙ digits) c.loop-chunk.invariant.reaches c.from_residual-in_err-put.ensures.1 c.in_err-put.ensures

pub returns : goal.returns
returns g c = digits_all _ _ _ _ c.in-None.ensures.steps.1.0 c.loop-chunk.invariant.live c.loop-chunk.invariant.reaches
