use Rattle.std.proofs.Common.{◌∙◌, ap, refl, rules}
use Rattle.std.proofs.lemmas.Bool.{false≢true}
use Rattle.json5.specs.Objects.{MapAccessState}
use Rattle.json5.specs.Only.{of_unknown, only_plan, only_these, whole_only}
use Rattle.json5.specs.StructFaults.{or_of}
use Rattle.json5.proofs.DescribedFaults.{gives_exactly, in_its_fields, refuses_exactly, unfinished_completes, unfinished_refused}
use Rattle.json5.proofs.FieldLoops.{access_at_brace, all_members, begins, field_steps, field_stops, key_stops, named, stopped, unknown_stops}
use Rattle.json5.proofs.StructFaults.{closes_there, unopened}
use Rattle.json5.proofs.Structs.{end_completes, still, struct_read, unopened_completes}
use Rattle.test_own_types.proofs.pairs.read_known.Goals as goal

pub loop-map-init : goal.loop-map-init
loop-map-init g c = record { same = c.start-reading.ensures.same; so_far = rw c.start-reading.ensures.none (begins _ _ c.in_ok-map.map c.in_ok-map.ensures.opens) }

pub read-requires-clause-named : goal.read-requires-clause-named
read-requires-clause-named g c = rw c.as_str.ensures.value (named (rw c.in-Some.is at c.in_ok-name.ensures))

pub loop-map-preserved : goal.loop-map-preserved
loop-map-preserved g c =
    let m = c.loop-map.invariant in
    let tries = rw (c.if-not-branch.false, c.as_str.ensures.value, m.same) at c.in_ok-read.ensures.tries in
    record { same = c.in_ok-read.ensures.same ∙ m.same; so_far = field_steps g.F.StructFields.faults m.so_far (rw c.in-Some.is at c.in_ok-name.ensures) tries }

pub returns-in_err-map : goal.returns-in_err-map
returns-in_err-map g c =
    let l = g.F.StructFields.layout (g.F.StructFields.shape c.args.fields) in
    let faults = or_of g.F.StructFields.faults of_unknown in
    refuses_exactly _ _ c.from_residual.ensures.1
    (unopened_completes (only_these l) _ _ c.from_residual.ensures.1 c.in_err-map.ensures.opens)
    (λ t r d live reads shallow is spare. absurd (false≢true spare))
    (in_its_fields (only_plan l) faults c.args.de.now c.from_residual.result (unopened (only_plan l) faults _ _ c.from_residual.ensures.1 c.in_err-map.ensures.opens.bracket.refused))
    (search rules)
    (search rules)

pub returns-in_err-name : goal.returns-in_err-name
returns-in_err-name g c =
    stopped c.requires _ _ c.from_residual-in_err-name.ensures.1 c.in_ok-map.map c.in_ok-map.ensures.opens (key_stops (or_of g.F.StructFields.faults of_unknown) c.loop-map.invariant.so_far c.in_err-name.ensures) (search rules)

pub returns-in_err-read : goal.returns-in_err-read
returns-in_err-read g c =
    let m = c.loop-map.invariant in
    let tries = rw (c.as_str.ensures.value, m.same) at c.in_err-read.ensures.tries in
    stopped c.requires _ _ c.from_residual-in_err-read.ensures.1 c.in_ok-map.map c.in_ok-map.ensures.opens (field_stops g.F.StructFields.faults m.so_far (rw c.in-Some.is at c.in_ok-name.ensures) tries) (search rules)

pub returns-then-not-branch : goal.returns-then-not-branch
returns-then-not-branch g c =
    let m = c.loop-map.invariant in
    let tries = rw (c.if-not-branch.true, c.as_str.ensures.value, m.same) at c.in_ok-read.ensures.tries in
    stopped c.requires _ _ refl c.in_ok-map.map c.in_ok-map.ensures.opens (unknown_stops g.F.StructFields.faults m.so_far (rw c.in-Some.is at c.in_ok-name.ensures) tries c.refuse_key.ensures.refused) (search rules)

pub returns-in_err-values : goal.returns-in_err-values
returns-in_err-values g c =
    let l = g.F.StructFields.layout (g.F.StructFields.shape c.args.fields) in
    let m = c.loop-map.invariant in
    let key = rw c.in_default.is at c.in_ok-name.ensures in
    let reads = all_members m.so_far key in
    let missing = (rw m.same at c.in_err-values.ensures.finishes.missing) reads.live in
    refuses_exactly _ _ c.from_residual-in_err-values.ensures.1
    (unfinished_completes (whole_only l c.requires) c.in_ok-map.map c.in_ok-map.ensures.opens _ _ c.from_residual-in_err-values.ensures.1 reads missing.0)
    (λ t r d live reads shallow is spare. absurd (false≢true spare))
    (unfinished_refused (only_plan l) (or_of g.F.StructFields.faults of_unknown) _ _ c.from_residual-in_err-values.ensures.1 c.in_ok-map.map c.in_ok-map.ensures.opens (access_at_brace m.so_far key) reads missing.0 missing.1)
    (search rules)
    (search rules)

pub returns-in_err-end : goal.returns-in_err-end
returns-in_err-end g c =
    let l = g.F.StructFields.layout (g.F.StructFields.shape c.args.fields) in
    let key = rw c.in_default.is at c.in_ok-name.ensures in
    let reads = still c.in_ok-values.ensures.finishes.same (all_members c.loop-map.invariant.so_far key) in
    let closes = c.in_err-end.ensures.alone (search rules) in
    refuses_exactly _ _ c.from_residual-in_err-end.ensures.1
    (end_completes (whole_only l c.requires) c.in_ok-map.map c.in_ok-map.ensures.opens _ _ c.from_residual-in_err-end.ensures.1 reads (λ r left. closes.left r (ap (λ (m : MapAccessState). m.pending) c.in_ok-values.ensures.finishes.same ∙ key.pending.given) left))
    (λ t r d live reads shallow is spare. absurd (false≢true spare))
    (closes_there reads closes)
    (search rules)
    (search rules)

pub returns : goal.returns
returns g c =
    let l = g.F.StructFields.layout (g.F.StructFields.shape c.args.fields) in
    let m = c.loop-map.invariant in
    let reads = still c.in_ok-values.ensures.finishes.same (all_members m.so_far (rw c.in_default.is at c.in_ok-name.ensures)) in
    let built = rw m.same at c.in_ok-values.ensures.finishes.built in
    gives_exactly _ (struct_read (whole_only l c.requires) c.in_ok-map.map c.in_ok-map.ensures.opens reads (search rules) (c.in_ok-end.ensures.alone (search rules)).read built) (search rules)
