use Rattle.std.proofs.Common.{arith, ◌≡◌, ◌<◌, ◌+◌, length, take, drop, true, ap, sym, ◌∙◌}
use Rattle.std.specs.Prelude.{get_or}
use Rattle.std.specs.List.{prefix_len}
use Rattle.std.proofs.lemmas.Grind.{take-set_at}
use Rattle.std.proofs.lemmas.List.{length-take-le, length-set, take-set-le}
use Rattle.std.proofs.lemmas.List.Sums.{prefix_len-drop_yes}
use Rattle.std.proofs.lemmas.Bool.Decides.{nat_tests}
use Rattle.json5_grammar.specs.Language.Characters.{is_digit, char, no_char}
use Rattle.json5_grammar.proofs.CharacterTests.{Each-append}
use Rattle.json5_types.proofs.GatheredDigits.{gathers_zero, gathers_first, gathers_next}
use Rattle.json5_types.proofs.inline_digits.InlineDigits.push_digits.Goals as goal
use Rattle.json5_types.proofs.inline_digits.InlineDigits.push_digits.Goals.{then-len-gt0+else-len-eq-CAPACITY, then-len-gt0-via-then-len-gt0, then-len-gt0-via-else-len-gt0+then-bytes-i-ne48, else-len-gt0+else-bytes-i-ne48}

pub loop-i-preserved : goal.loop-i-preserved
loop-i-preserved c =
    let held = c.loop-i.invariant in
    let digit : is_digit (get_or c.args.bytes.now c.loop-i.i 0) ≡ true = sym c.is_digit.ensures ∙ c.if-is_digit.true in
    let more = prefix_len-drop_yes is_digit c.args.bytes.now c.loop-i.i 0 c.loop-i-test.true digit in
    let count : prefix_len is_digit c.args.bytes.now ≡ c.loop-i.i + 1 + prefix_len is_digit (drop (c.loop-i.i + 1) c.args.bytes.now) = omega (arith, held.count, more) in
    elim c.if-len-gt0.branch [
      | then-len-gt0+else-len-eq-CAPACITY w ↦
          let room : c.loop-i.len < length c.loop-i.self-inside.bytes = omega (arith, held.room, held.whole, w.if-len-eq-CAPACITY.false) in
          let next = take-set_at c.loop-i.self-inside.bytes c.loop-i.len (c.loop-i.len + 1) (get_or c.args.bytes.now c.loop-i.i 0) (omega arith) room in
          rw (w.len-is, w.self-inside-is)
          record {
            count = count;
            inside = omega (arith, c.loop-i-test.true);
            room = omega (arith, held.room, w.if-len-eq-CAPACITY.false);
            whole = length-set c.loop-i.self-inside.bytes c.loop-i.len (get_or c.args.bytes.now c.loop-i.i 0) ∙ held.whole;
            digits = rw next (Each-append held.digits (char digit no_char));
            old = (held.old.0, rw (take-set-le c.loop-i.self-inside.len c.loop-i.self-inside.bytes c.loop-i.len (get_or c.args.bytes.now c.loop-i.i 0) held.more) held.old.1);
            more = omega (arith, held.more);
            gathered = rw next (elim w.then-len-gt0.branch [
              | then-len-gt0-via-then-len-gt0 v ↦ gathers_next _ _ _ _ c.loop-i-test.true (let n = length-take-le c.loop-i.len c.loop-i.self-inside.bytes (omega (arith, room)) in omega (arith, n, v.if-len-gt0.true)) held.gathered
              | then-len-gt0-via-else-len-gt0+then-bytes-i-ne48 v ↦ gathers_first _ _ _ _ c.loop-i-test.true (let e : c.loop-i.len ≡ 0 = omega (arith, v.if-len-gt0.false) in ap (λ n. take n c.loop-i.self-inside.bytes) e) (grind (arith, nat_tests, v.if-bytes-i-ne48.true)) held.gathered
            ]);
          }
      | else-len-gt0+else-bytes-i-ne48 w ↦
          rw (w.len-is, w.self-inside-is)
          record {
            count = count;
            inside = omega (arith, c.loop-i-test.true);
            room = held.room;
            whole = held.whole;
            digits = held.digits;
            old = held.old;
            more = held.more;
            gathered = gathers_zero _ _ _ _ c.loop-i-test.true (let e : c.loop-i.len ≡ 0 = omega (arith, w.if-len-gt0.false) in ap (λ n. take n c.loop-i.self-inside.bytes) e) w.if-bytes-i-ne48.false held.gathered;
          }
    ]
