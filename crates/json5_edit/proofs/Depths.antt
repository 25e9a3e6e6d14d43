-- How deep the parts of a tree are.
use Rattle.std.proofs.Common.{◌≡◌, ℕ, zero, suc, ◌+◌, ◌≤◌, List, [], ◌∷◌, length, ap, Some, arith}
use Rattle.json5_grammar.specs.Language.Trees.{Tree, null, boolean, number, text, array, object, Trees, Members, no_more, more, no_member, member, depth, depths, member_depths}
use Rattle.json5_walk.specs.declared.place.Place.{Place}
use Rattle.json5_edit.specs.Parts.{part, part_at, part_under}
use Rattle.json5_edit.specs.Places.{Leads}
use Rattle.json5_edit.specs.declared.paths.Step.{Step}

same_depth : (t u : Tree) → Some t ≡ Some u → depth t ≡ depth u
same_depth t u e = let same : t ≡ u = cc in ap depth same

mutual
  part_depth : (path : List ℕ) (w t : Tree) → part path w ≡ Some t → length path + depth t ≤ depth w
  part_depth [] w t e = let k = same_depth w t e in omega (arith, k)
  part_depth (i ∷ path) null t e = absurd (cc)
  part_depth (i ∷ path) (boolean b) t e = absurd (cc)
  part_depth (i ∷ path) (number n) t e = absurd (cc)
  part_depth (i ∷ path) (text u b) t e = absurd (cc)
  part_depth (i ∷ path) (array ts) t e = let k = part_depth_at i path ts t e in omega (arith, k)
  part_depth (i ∷ path) (object ps) t e = let k = part_depth_under i path ps t e in omega (arith, k)

  part_depth_at : (i : ℕ) (path : List ℕ) (ts : Trees) (t : Tree) → part_at i path ts ≡ Some t → length path + depth t ≤ depths ts
  part_depth_at i path no_more t e = absurd (cc)
  part_depth_at zero path (more s ts) t e = let k = part_depth path s t e in omega (arith, k)
  part_depth_at (suc i) path (more s ts) t e = let k = part_depth_at i path ts t e in omega (arith, k)

  part_depth_under : (i : ℕ) (path : List ℕ) (ps : Members) (t : Tree) → part_under i path ps ≡ Some t → length path + depth t ≤ member_depths ps
  part_depth_under i path no_member t e = absurd (cc)
  part_depth_under zero path (member u b s ps) t e = let k = part_depth path s t e in omega (arith, k)
  part_depth_under (suc i) path (member u b s ps) t e = let k = part_depth_under i path ps t e in omega (arith, k)

-- the value in a place fits there
pub fits_there : {bytes : List ℕ} {path : List Step} {p : Place} (leads : Leads bytes path (Some p)) → depth leads.placed.tree ≤ p.room
fits_there leads =
    let q = leads.placed in
    let k = part_depth q.positions leads.tree q.tree q.there in
    let r = q.room in
    let d = leads.document.shallow in
    omega (arith, k, r, d)
