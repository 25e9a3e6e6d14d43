use Rattle.std.specs.Prelude.{⊤, Ok}
use Rattle.std.specs.Str.{chars}
use Rattle.json5_grammar.specs.Faults.Fronts.{opening}
use Rattle.json5_write.specs.Brackets.{bracket_of}
use Rattle.json5_write.proofs.ShortWritesJoined.{Puts-exit, Puts-handed}
use Rattle.json5_write.proofs.PiecesWritten.{chars_colon_space}
use Rattle.json5_ser.proofs.VariantOpened.{key_refused, colon_refused, variant_opened}
use Rattle.json5_ser.proofs.ser.Serializer.open_variant.Goals as goal

pub returns-in_err-open_brackets-clause-opens : goal.returns-in_err-open_brackets-clause-opens
returns-in_err-open_brackets-clause-opens g c = Puts-exit _ _ _ _ _ _ c.from_residual.ensures.1 (rw c.self.view_is at c.in_err-open_brackets.ensures.opens)

pub returns-in_err-write_key-clause-opens : goal.returns-in_err-write_key-clause-opens
returns-in_err-write_key-clause-opens g c =
    key_refused (chars c.args.variant.now) (opening (bracket_of c.args.brackets)) _ _ _ _ _ (rw c.self.view_is at c.in_ok-open_brackets.ensures.opens) (rw c.self.view_is at c.in_ok-open_brackets.ensures.deeper) c.in_err-write_key.ensures c.from_residual-in_err-write_key.ensures.1

pub returns-in_err-put-clause-opens : goal.returns-in_err-put-clause-opens
returns-in_err-put-clause-opens g c =
    colon_refused (chars c.args.variant.now) (opening (bracket_of c.args.brackets)) _ _ _ _ _ _ (rw c.self.view_is at c.in_ok-open_brackets.ensures.opens) (rw c.self.view_is at c.in_ok-open_brackets.ensures.deeper) c.in_ok-write_key.ensures (rw chars_colon_space at c.in_err-put.ensures) c.from_residual-in_err-put.ensures.1

pub returns-in_err-open_brackets-2-clause-opens : goal.returns-in_err-open_brackets-2-clause-opens
returns-in_err-open_brackets-2-clause-opens g c =
    variant_opened (chars c.args.variant.now) (opening (bracket_of c.args.brackets)) _ _ _ _ c.open_brackets-2.new.self _ (rw c.self.view_is at c.in_ok-open_brackets.ensures.opens) (rw c.self.view_is at c.in_ok-open_brackets.ensures.deeper) c.in_ok-write_key.ensures (rw chars_colon_space at c.in_ok-put.ensures)
    (Puts-handed _ _ _ _ _ c.from_residual-in_err-open_brackets-2.ensures.1 (rw c.self-2.view_is at c.in_err-open_brackets-2.ensures.opens))

pub returns-clause-opens : goal.returns-clause-opens
returns-clause-opens g c =
    variant_opened {A = ⊤} (chars c.args.variant.now) (opening (bracket_of c.args.brackets)) _ _ _ _ c.open_brackets-2.new.self (Ok tt) (rw c.self.view_is at c.in_ok-open_brackets.ensures.opens) (rw c.self.view_is at c.in_ok-open_brackets.ensures.deeper) c.in_ok-write_key.ensures (rw chars_colon_space at c.in_ok-put.ensures) (rw c.self-2.view_is at c.in_ok-open_brackets-2.ensures.opens)
