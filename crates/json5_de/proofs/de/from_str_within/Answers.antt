use Rattle.std.proofs.Common.{sym, ap, ◌∙◌, ◌≡◌, Some, refl, subst}
use Rattle.std.proofs.lemmas.Bool.{false≢true}
use Rattle.std.proofs.lemmas.Result.{err_from_is_err_and}
use Rattle.std.specs.Str.{chars}
use Rattle.json5_de.specs.DeserializeLaw.{TookValue}
use Rattle.json5_de.specs.WholeInputs.{in_value, after_value}
use Rattle.json5_de.proofs.NoFailedCode.{trailing_lacks}
use Rattle.json5_de.proofs.TokenKinds.{refused_other}
use Rattle.json5_de.proofs.WholeInputs.{read_document, readable, the_document, blames_value, blames_rest, live_after}
use Rattle.json5_de.proofs.de.from_str_within.Goals as goal

pub returns-in_err-value-clause-complete : goal.returns-in_err-value-clause-complete
returns-in_err-value-clause-complete g c = λ t v doc converts.
    let (y, is, from) = err_from_is_err_and c.from_residual.result c.from_residual.ensures.1 in
    let k = readable c.args.limit c.within-de.result (chars c.args.input.now) t c.within-de.ensures.bound c.within-de.ensures.starts doc in
    rw (is, from) (c.in_err-value.ensures.complete.memory t k.rest v k.live k.reads k.shallow converts)

pub returns-in_err-value-clause-no_memory : goal.returns-in_err-value-clause-no_memory
returns-in_err-value-clause-no_memory g c = λ t v doc converts allocation_free.
    let k = readable c.args.limit c.within-de.result (chars c.args.input.now) t c.within-de.ensures.bound c.within-de.ensures.starts doc in
    absurd (false≢true (c.in_err-value.ensures.no_memory t k.rest v k.live k.reads k.shallow converts allocation_free))

pub returns-in_err-value-clause-refused : goal.returns-in_err-value-clause-refused
returns-in_err-value-clause-refused g c =
    let (y, is, from) = err_from_is_err_and c.from_residual.result c.from_residual.ensures.1 in
    let e = c.in_err-value.field-0.0 in
    rw (is, from) (in_value c.deserialize.new.de (subst (λ s. g.T.Deserialize.refuses s e c.deserialize.new.de) c.within-de.ensures.starts c.in_err-value.ensures.refused))

pub returns-in_err-value-clause-after_value : goal.returns-in_err-value-clause-after_value
returns-in_err-value-clause-after_value g c =
    let (y, is, from) = err_from_is_err_and c.from_residual.result c.from_residual.ensures.1 in
    rw (is, from) (λ t r v reads shallow converts. blames_value g.row.T.Denot c.args.limit c.within-de.result (chars c.args.input.now) t r v c.in_err-value.field-0.0 c.within-de.ensures.bound c.within-de.ensures.starts reads shallow converts c.in_err-value.ensures.complete)

pub returns-in_err-value-clause-unprompted : goal.returns-in_err-value-clause-unprompted
returns-in_err-value-clause-unprompted g c =
    let (y, is, from) = err_from_is_err_and c.from_residual.result c.from_residual.ensures.1 in
    rw (is, from) (c.in_err-value.ensures.unprompted (rw c.within-de.ensures.starts refl))

pub returns-in_err-end-clause-complete : goal.returns-in_err-end-clause-complete
returns-in_err-end-clause-complete g c = λ t v doc converts.
    let (u, took, is) = c.in_ok-value.ensures.sound in
    let there = the_document c.args.limit c.within-de.result c.deserialize.new.de (chars c.args.input.now) t u c.within-de.ensures.bound c.within-de.ensures.starts doc took in
    absurd (cc (c.in_err-end.ensures.complete there.1))

pub returns-in_err-end-clause-no_memory : goal.returns-in_err-end-clause-no_memory
returns-in_err-end-clause-no_memory g c = λ t v doc converts allocation_free.
    let (u, took, is) = c.in_ok-value.ensures.sound in
    let there = the_document c.args.limit c.within-de.result c.deserialize.new.de (chars c.args.input.now) t u c.within-de.ensures.bound c.within-de.ensures.starts doc took in
    absurd (cc (c.in_err-end.ensures.complete there.1))

pub returns-in_err-end-clause-refused : goal.returns-in_err-end-clause-refused
returns-in_err-end-clause-refused g c =
    let (y, from_is, from) = err_from_is_err_and c.from_residual-in_err-end.result c.from_residual-in_err-end.ensures.1 in
    let (u, took, is) = c.in_ok-value.ensures.sound in
    let whole = subst (λ s. TookValue s u c.deserialize.new.de) c.within-de.ensures.starts took in
    rw (from_is, from) (after_value u _ c.deserialize.new.de whole is c.in_err-end.ensures.refused)

pub returns-in_err-end-clause-after_value : goal.returns-in_err-end-clause-after_value
returns-in_err-end-clause-after_value g c =
    let (y, from_is, from) = err_from_is_err_and c.from_residual-in_err-end.result c.from_residual-in_err-end.ensures.1 in
    let (u, took, is) = c.in_ok-value.ensures.sound in
    rw (from_is, from) (λ t r v reads shallow converts. blames_rest c.args.limit c.within-de.result c.deserialize.new.de (chars c.args.input.now) t u r c.in_err-end.field-0.0 c.within-de.ensures.starts reads took c.in_err-end.ensures.refused)

pub returns-in_err-end-clause-unprompted : goal.returns-in_err-end-clause-unprompted
returns-in_err-end-clause-unprompted g c =
    let (y, from_is, from) = err_from_is_err_and c.from_residual-in_err-end.result c.from_residual-in_err-end.ensures.1 in
    let (u, took, is) = c.in_ok-value.ensures.sound in
    rw (from_is, from) (refused_other trailing_lacks c.deserialize.new.de c.in_err-end.field-0.0 c.in_err-end.ensures.refused (live_after c.args.limit c.within-de.result c.deserialize.new.de (chars c.args.input.now) u c.within-de.ensures.starts took))

pub returns-clause-sound : goal.returns-clause-sound
returns-clause-sound g c =
    let (u, took, is) = c.in_ok-value.ensures.sound in
    (u, read_document c.args.limit c.within-de.result c.deserialize.new.de (chars c.args.input.now) u c.within-de.ensures.bound c.within-de.ensures.starts took c.in_ok-end.ensures.sound.0, is)

pub returns-clause-complete : goal.returns-clause-complete
returns-clause-complete g c = λ t v doc converts.
    let (u, took, is) = c.in_ok-value.ensures.sound in
    let there = the_document c.args.limit c.within-de.result c.deserialize.new.de (chars c.args.input.now) t u c.within-de.ensures.bound c.within-de.ensures.starts doc took in
    let both : Some (g.T.Deserialize.content c.in_ok-value.value) ≡ Some v = sym is ∙ ap g.T.Deserialize.convert (sym there.0) ∙ converts in
    cc
