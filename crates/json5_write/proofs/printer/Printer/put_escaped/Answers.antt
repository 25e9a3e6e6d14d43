use Rattle.std.proofs.Common.{◌≡◌, ℕ, List, subst}
use Rattle.std.specs.Str.{chars}
use Rattle.json5_grammar.specs.Written.Quoting.{escaped_all}
use Rattle.json5_write.specs.Out.{Out, piece, ◌then◌}
use Rattle.json5_write.specs.Writes.{SerializerState}
use Rattle.json5_write.specs.Escaping.{SplitsAtEscape}
use Rattle.json5_write.proofs.OutputsJoined.{Reaches, Reaches-none, Reaches-next}
use Rattle.json5_write.proofs.ShortWritesJoined.{Reaches-stop, Reaches-end}
use Rattle.json5_write.proofs.printer.Printer.put_escaped.Goals as goal

parted : (all : Out) (q : ℕ) (o m : SerializerState) (t raw esc after : List ℕ) → SplitsAtEscape q t raw esc after → Reaches all o m (piece (escaped_all q (chars t)))
    → Reaches all o m (piece (chars raw) then (piece (chars esc) then piece (escaped_all q (chars after))))
parted all q o m t raw esc after s h = subst (λ x. Reaches all o m (piece x)) s.text h

unescaped : (all : Out) (q : ℕ) (o m : SerializerState) (t : List ℕ) → escaped_all q (chars t) ≡ chars t → Reaches all o m (piece (escaped_all q (chars t))) → Reaches all o m (piece (chars t))
unescaped all q o m t e h = subst (λ x. Reaches all o m (piece x)) e h

pub loop-raw-init : goal.loop-raw-init
loop-raw-init g c = record { reaches = Reaches-none _ _; utf8 = c.utf8.text }

pub returns-in_err-put_piece : goal.returns-in_err-put_piece
returns-in_err-put_piece g c =
    let h = parted _ _ _ _ _ _ _ _ c.in-Some.ensures c.loop-raw.invariant.reaches in
    Reaches-stop _ _ _ _ _ _ _ _ h c.from_residual.ensures.1 c.in_err-put_piece.ensures

pub returns-in_err-put_piece-2 : goal.returns-in_err-put_piece-2
returns-in_err-put_piece-2 g c =
    let h = parted _ _ _ _ _ _ _ _ c.in-Some.ensures c.loop-raw.invariant.reaches in
    Reaches-stop _ _ _ _ _ _ _ _ (Reaches-next _ _ _ _ _ _ h c.in_ok-put_piece.ensures) c.from_residual-in_err-put_piece-2.ensures.1 c.in_err-put_piece-2.ensures

pub loop-raw-preserved : goal.loop-raw-preserved
loop-raw-preserved g c =
    let h = parted _ _ _ _ _ _ _ _ c.in-Some.ensures c.loop-raw.invariant.reaches in
    record { reaches = Reaches-next _ _ _ _ _ _ (Reaches-next _ _ _ _ _ _ h c.in_ok-put_piece.ensures) c.in_ok-put_piece-2.ensures; utf8 = c.in-Some.ensures.utf8 }

pub returns : goal.returns
returns g c = Reaches-end _ _ _ _ _ _ (unescaped _ _ _ _ _ c.in_default.ensures c.loop-raw.invariant.reaches) c.put_piece-2.ensures
