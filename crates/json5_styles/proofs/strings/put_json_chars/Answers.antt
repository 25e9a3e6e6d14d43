use Rattle.std.proofs.Common.{◌≡◌, ℕ, List, subst}
use Rattle.std.specs.Str.{chars}
use Rattle.json5_write.specs.Out.{Out, piece, ◌then◌}
use Rattle.json5_write.specs.Writes.{SerializerState}
use Rattle.json5_write.proofs.OutputsJoined.{Reaches, Reaches-none, Reaches-next}
use Rattle.json5_write.proofs.ShortWritesJoined.{Reaches-stop, Reaches-end}
use Rattle.json5_styles.specs.JsonTexts.{json_escaped, json_escaped_all}
use Rattle.json5_styles.specs.JsonEscapes.{SplitsAtChar}
use Rattle.json5_styles.proofs.strings.put_json_chars.Goals as goal

parted : (all : Out) (o m : SerializerState) (t raw : List ℕ) (c : ℕ) (after : List ℕ) → SplitsAtChar t raw c after → Reaches all o m (piece (json_escaped_all (chars t)))
    → Reaches all o m (piece (chars raw) then (piece (json_escaped c) then piece (json_escaped_all (chars after))))
parted all o m t raw c after s h = subst (λ x. Reaches all o m (piece x)) s.text h

unescaped : (all : Out) (o m : SerializerState) (t : List ℕ) → json_escaped_all (chars t) ≡ chars t → Reaches all o m (piece (json_escaped_all (chars t))) → Reaches all o m (piece (chars t))
unescaped all o m t e h = subst (λ x. Reaches all o m (piece x)) e h

pub loop-raw-init : goal.loop-raw-init
loop-raw-init g c = record { reaches = Reaches-none _ _; utf8 = c.utf8.text }

pub returns-in_err-put_piece : goal.returns-in_err-put_piece
returns-in_err-put_piece g c =
    let h = parted _ _ _ _ _ _ _ c.in-Some.ensures c.loop-raw.invariant.reaches in
    Reaches-stop _ _ _ _ _ _ _ _ h c.from_residual.ensures.1 c.in_err-put_piece.ensures

pub returns-in_err-put_escaped : goal.returns-in_err-put_escaped
returns-in_err-put_escaped g c =
    let h = parted _ _ _ _ _ _ _ c.in-Some.ensures c.loop-raw.invariant.reaches in
    Reaches-stop _ _ _ _ _ _ _ _ (Reaches-next _ _ _ _ _ _ h c.in_ok-put_piece.ensures) c.from_residual-in_err-put_escaped.ensures.1 c.in_err-put_escaped.ensures

pub loop-raw-preserved : goal.loop-raw-preserved
loop-raw-preserved g c =
    let h = parted _ _ _ _ _ _ _ c.in-Some.ensures c.loop-raw.invariant.reaches in
    record { reaches = Reaches-next _ _ _ _ _ _ (Reaches-next _ _ _ _ _ _ h c.in_ok-put_piece.ensures) c.in_ok-put_escaped.ensures; utf8 = c.in-Some.ensures.utf8 }

pub returns : goal.returns
returns g c = Reaches-end _ _ _ _ _ _ (unescaped _ _ _ _ c.in_default.ensures c.loop-raw.invariant.reaches) c.put_piece-2.ensures
