-- Lists whose elements mean what they convert to.
use Rattle.std.proofs.Common.{◌≡◌, ◌∙◌, List, [], ◌∷◌, Option, Some, None, ap, map, refl, sym}
use Rattle.json5_grammar.specs.Language.Trees.{Tree, Trees, array, boolean, more, no_more, null, number, object, text}
use Rattle.json5_grammar.specs.Model.Collections.{array_of, both, contents}
use Rattle.json5_types.specs.declared.error.Error.{Error}
use Rattle.json5_de.specs.DeserializeLaw.{OnlyForMemory}
use Rattle.json5_de.specs.Refinement.{IsContent}
use Rattle.json5_de.specs.State.{State}

-- what a list is, from what its first element and the others are
both_parts : {C : Type 0} (o : Option C) (r : Option (List C)) (cs : List C) → both o r ≡ Some cs → (c : C) × (ds : List C) × (o ≡ Some c) × (r ≡ Some ds) × (cs ≡ c ∷ ds)
both_parts None r cs is = absurd (cc is)
both_parts (Some c) None cs is = absurd (cc is)
both_parts (Some c) (Some ds) cs is = (c, ds, refl, refl, cc is)

both_made : {C : Type 0} {o : Option C} {r : Option (List C)} {c : C} {ds : List C} → o ≡ Some c → r ≡ Some ds → both o r ≡ Some (c ∷ ds)
both_made first others = rw (first, others) refl

module _ {E C M : Type 0} (content : E → C) (convert : Tree → Option C) (meaning : E → M) (means : Tree → Option M) where
  module _ (reads : (t : Tree) (v : E) → convert t ≡ Some (content v) → means t ≡ Some (meaning v)) where
    elements_mean : (ts : Trees) (vs : List E) → contents convert ts ≡ Some (map content vs) → contents means ts ≡ Some (map meaning vs)
    elements_mean no_more [] is = refl
    elements_mean no_more (v ∷ vs) is = absurd (cc is)
    elements_mean (more t ts) [] is = let (c, ds, first, others, made) = both_parts (convert t) (contents convert ts) [] is in absurd (cc made)
    elements_mean (more t ts) (v ∷ vs) is =
        let (c, ds, first, others, made) = both_parts (convert t) (contents convert ts) (content v ∷ map content vs) is in
        let one : c ≡ content v = cc made in
        let rest : ds ≡ map content vs = cc made in
        both_made (reads t v (first ∙ ap (λ c. Some c) one)) (elements_mean ts vs (others ∙ ap (λ ds. Some ds) rest))

    pub lists_mean : (t : Tree) (vs : List E) → array_of (contents convert) t ≡ Some (map content vs) → array_of (contents means) t ≡ Some (map meaning vs)
    lists_mean null vs is = absurd (cc is)
    lists_mean (boolean b) vs is = absurd (cc is)
    lists_mean (number n) vs is = absurd (cc is)
    lists_mean (text u escape_free) vs is = absurd (cc is)
    lists_mean (array ts) vs is = elements_mean ts vs is
    lists_mean (object ps) vs is = absurd (cc is)

  module _ (is_read : (t : Tree) (m : M) → means t ≡ Some m → (c : C) × (convert t ≡ Some c)) where
    elements_read : (ts : Trees) (ms : List M) → contents means ts ≡ Some ms → (cs : List C) × (contents convert ts ≡ Some cs)
    elements_read no_more ms is = ([], refl)
    elements_read (more t ts) ms is =
        let (m, ns, first, others, made) = both_parts (means t) (contents means ts) ms is in
        let (c, one) = is_read t m first in
        let (cs, rest) = elements_read ts ns others in
        (c ∷ cs, both_made one rest)

    lists_read : (t : Tree) (ms : List M) → array_of (contents means) t ≡ Some ms → (cs : List C) × (array_of (contents convert) t ≡ Some cs)
    lists_read null ms is = absurd (cc is)
    lists_read (boolean b) ms is = absurd (cc is)
    lists_read (number n) ms is = absurd (cc is)
    lists_read (text u escape_free) ms is = absurd (cc is)
    lists_read (array ts) ms is = elements_read ts ms is
    lists_read (object ps) ms is = absurd (cc is)

    -- what can be read by what it means can be read
    pub means_for_memory : (old : State) (e : Error) → OnlyForMemory (array_of (contents convert)) old e → OnlyForMemory (array_of (contents means)) old e
    means_for_memory old e only = record { memory = λ t r ms live reads shallow is. let (cs, converts) = lists_read t ms is in only.memory t r cs live reads shallow converts }

    -- and means what it was read as
    pub means_content : ((t : Tree) (v : E) → convert t ≡ Some (content v) → means t ≡ Some (meaning v)) → (old : State) (vs : List E) → IsContent (array_of (contents convert)) old (map content vs) → IsContent (array_of (contents means)) old (map meaning vs)
    means_content reads old vs has t r ms live read shallow is =
        let (cs, converts) = lists_read t ms is in
        let same = has t r cs live read shallow converts in
        let one : Some (map meaning vs) ≡ Some ms = sym (lists_mean reads t vs (converts ∙ ap (λ cs. Some cs) (sym same))) ∙ is in
        cc one
