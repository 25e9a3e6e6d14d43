use Rattle.std.proofs.Common.{refl}
use Rattle.std.proofs.lemmas.Result.{err_from_is_err_and}
use Rattle.json5_de.specs.AnyTree.{nothing, every_value}
use Rattle.json5_de.specs.TokenKinds.{every_tree}
use Rattle.json5_de.proofs.TreesRead.{read_as, refused_as}
use Rattle.json5_de.proofs.de.any.IgnoredAnyDeserialize.deserialize.Goals as goal

pub returns-in_err-deserialize_ignored_any : goal.returns-in_err-deserialize_ignored_any
returns-in_err-deserialize_ignored_any g c =
    let (y, is, from) = err_from_is_err_and c.from_residual.result c.from_residual.ensures.1 in
    rw (is, from) (refused_as nothing nothing every_value every_tree c.args.de.now c.deserialize_ignored_any.new.self c.in_err-deserialize_ignored_any.field-0.0 (rw c.in_err-deserialize_ignored_any.was at c.deserialize_ignored_any.ensures))

pub returns : goal.returns
returns g c = read_as nothing nothing every_value every_tree c.args.de.now c.deserialize_ignored_any.new.self tt (record {}) refl c.in_ok-deserialize_ignored_any.ensures
