use Rattle.std.proofs.Common.{◌++◌, refl, ap, sym, ◌∙◌, append_assoc}
use Rattle.std.proofs.lemmas.Grind.{put_two}
use Rattle.json5_types.proofs.decimal.DecimalDisplay.fmt.Goals as goal

pub loop-piece-preserved : goal.loop-piece-preserved
loop-piece-preserved g c =
    let i = c.loop-piece.invariant in (
      i.0 ++ c.in-Some.piece.now,
      i.1 ∙ ap (λ t. i.0 ++ t) c.in-Some.ensures.parts ∙ sym (append_assoc i.0 c.in-Some.piece.now c.next_piece.new.self),
      λ p. let w = i.2 p in put_two g.W.Write.write_str_gives _ _ _ _ _ _ w (c.in_ok-write_str.ensures.writes w.plain refl) refl,
    )
