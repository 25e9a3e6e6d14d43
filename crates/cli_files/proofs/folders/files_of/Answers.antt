use Rattle.std.proofs.Common.{sym, subst, ap, ◌∙◌, ◌++◌, ◌∷◌, []}
use Rattle.cli_files.specs.Folders.{itself, below, IsBelow, StandsFor}
use Rattle.cli_files.specs.NameLists.{names_of}
use Rattle.cli_files.proofs.folders.files_of.Goals as goal

pub returns-then-is_folder : goal.returns-then-is_folder
returns-then-is_folder g c =
    let (after, gathered) = c.in_ok-gather_below.ensures c.args.excluded.now c.in_ok-ignores.ensures in
    let (inner, k, e) = gathered in
    below c.if-is_folder.ensures
    (subst (IsBelow (g.S.Store.known c.args.store.now) c.args.endings.now c.args.excluded.now c.args.name.now) (sym (e ∙ ap (λ l. names_of l ++ inner) c.new-found.ensures.items)) k)

pub returns : goal.returns
returns g c =
    subst (StandsFor (g.S.Store.known c.args.store.now) c.args.endings.now c.args.excluded.now c.args.name.now)
    (sym (c.in_ok-push_name.ensures ∙ ap (λ l. names_of l ++ c.args.name.now ∷ []) c.new-found.ensures.items)) (itself c.if-is_folder.ensures)
