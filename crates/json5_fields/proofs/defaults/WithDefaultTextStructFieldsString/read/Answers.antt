use Rattle.std.proofs.Common.{◌≡◌}
use Rattle.json5_fields.proofs.Described.{it_free, same_name, takes_it}
use Rattle.json5_fields.proofs.defaults.WithDefaultTextStructFieldsString.read.Goals as goal

pub returns-in-Ok-clause-tries : goal.returns-in-Ok-clause-tries
returns-in-Ok-clause-tries g c =
    let same : c.args.name.now ≡ c.args.fields.now.name.now = same_name _ _ _ c.ne.ensures c.if-ne.false in
    takes_it same c.in-Ok.ensures.taken

pub returns-in-Err-clause-tries : goal.returns-in-Err-clause-tries
returns-in-Err-clause-tries g c =
    let same : c.args.name.now ≡ c.args.fields.now.name.now = same_name _ _ _ c.ne.ensures c.if-ne.false in
    takes_it same c.in-Err.ensures.taken

pub returns-in-Err-clause-no_memory : goal.returns-in-Err-clause-no_memory
returns-in-Err-clause-no_memory g c =
    let same : c.args.name.now ≡ c.args.fields.now.name.now = same_name _ _ _ c.ne.ensures c.if-ne.false in
    it_free _ _ same c.in-Err.ensures.no_memory
