-- A document's leaves have distinct names.
use Rattle.std.proofs.Common.{◌≡◌, refl, sym, ap, ◌∙◌, ℕ, suc, ◌+◌, ◌<◌, ◌≤◌, Bool, true, false, not, cond, List, [], ◌∷◌, ◌++◌, map, length, take, get_or, Option, IsTrue, arith}
use Rattle.std.proofs.lemmas.List.{length-map, take-map, get_or-map}
use Rattle.gql_tree.specs.declared.Named.{Named}
use Rattle.gql_tree.specs.declared.Value.{Value}
use Rattle.gql_tree.proofs.Names.{has_name-take}
use Rattle.std.specs.Prelude.{◌&&◌}
use Rattle.std.specs.List.{AllByRecursion as Each}
use Rattle.std.specs.Str.{bytes_eq}
use Rattle.std.proofs.lemmas.List.Sums.{sum_by-cons}
use Rattle.gql_tree.specs.declared.FragId.{FragId}
use Rattle.gql_tree.specs.declared.Occurrence.{Occurrence}
use Rattle.gql_tree.specs.Names.{has_name, apart}
use Rattle.gql_tool.specs.declared.hero.shape.LeafName.{LeafName}
use Rattle.gql_tool.specs.declared.hero.shape.LeafName.TheVariants.{Id, Name, Age, Boom}
use Rattle.gql_tool.specs.declared.hero.shape.Leaf.{Leaf}
use Rattle.gql_tool.specs.declared.hero.tables.Person.{Person}
use Rattle.gql_tool.specs.hero.Shape.{same_name, times}
use Rattle.gql_tool.specs.hero.Operation.{name_of}
use Rattle.gql_tool.specs.hero.Hero.{leaf_member}
use Rattle.gql_tool.proofs.hero_lemmas.Fields.{leaf_pairs, KeysApart, Other}

pub names-differ : (a b : LeafName) → same_name a b ≡ false → (bytes_eq (name_of b) (name_of a) ≡ false) × (bytes_eq (name_of a) (name_of b) ≡ false)
names-differ Id Id h = absurd (cc)
names-differ Id Name h = (refl, refl)
names-differ Id Age h = (refl, refl)
names-differ Id Boom h = (refl, refl)
names-differ Name Id h = (refl, refl)
names-differ Name Name h = absurd (cc)
names-differ Name Age h = (refl, refl)
names-differ Name Boom h = (refl, refl)
names-differ Age Id h = (refl, refl)
names-differ Age Name h = (refl, refl)
names-differ Age Age h = absurd (cc)
names-differ Age Boom h = (refl, refl)
names-differ Boom Id h = (refl, refl)
names-differ Boom Name h = (refl, refl)
names-differ Boom Age h = (refl, refl)
names-differ Boom Boom h = absurd (cc)

pub same_name-self : (a : LeafName) → same_name a a ≡ true
same_name-self Id = refl
same_name-self Name = refl
same_name-self Age = refl
same_name-self Boom = refl

-- a count of a test that passes, or not
pub count_true : (b : Bool) (n : ℕ) → b ≡ true → cond b (suc n) n ≡ suc n
count_true true n h = refl
count_true false n h = absurd (cc)

pub count_none : (b : Bool) (n : ℕ) → cond b (suc n) n ≡ 0 → (b ≡ false) × (n ≡ 0)
count_none true n h = absurd (cc)
count_none false n h = (refl, h)

pub times-cons : (a : LeafName) (l : Leaf) (ls : List Leaf) → times a (l ∷ ls) ≡ cond (same_name l.name a) (suc (times a ls)) (times a ls)
times-cons a l ls = sum_by-cons (λ (x : Leaf). cond (same_name x.name a) 1 0) l ls ∙ by_test (same_name l.name a)
  where
    by_test : (b : Bool) → cond b 1 0 + times a ls ≡ cond b (suc (times a ls)) (times a ls)
    by_test true = omega arith
    by_test false = omega arith

none_named : (a : LeafName) (k : ℕ) (tag : Option FragId) (ls : List Leaf) → times a ls ≡ 0 → Each (Other {A = Occurrence} (name_of a)) (leaf_pairs k tag ls)
none_named a k tag [] h = tt
none_named a k tag (l ∷ ls) h =
    let p = count_none (same_name l.name a) (times a ls) (sym (times-cons a l ls) ∙ h) in
    (names-differ l.name a p.0, none_named a (k + 1) tag ls p.1)

each_append : {A : Type 0} (P : A → Type 0) (xs ys : List A) → Each P xs → Each P ys → Each P (xs ++ ys)
each_append P [] ys h k = k
each_append P (x ∷ xs) ys h k = (h.0, each_append P xs ys h.1 k)

first_once : (l : Leaf) (ls : List Leaf) (n : ℕ) → times l.name (l ∷ ls) + n ≤ 1 → (times l.name ls ≡ 0) × (n ≡ 0)
first_once l ls n h =
    let one : times l.name (l ∷ ls) ≡ suc (times l.name ls) = times-cons l.name l ls ∙ count_true (same_name l.name l.name) (times l.name ls) (same_name-self l.name) in
    (omega (arith, one), omega (arith, one))

pub fewer : (a : LeafName) (l : Leaf) (ls : List Leaf) → times a ls ≤ times a (l ∷ ls)
fewer a l ls = rw (times-cons a l ls) (by_test (same_name l.name a) (times a ls))
  where
    by_test : (b : Bool) (n : ℕ) → n ≤ cond b (suc n) n
    by_test true n = omega arith
    by_test false n = omega arith

pairs_once : (k : ℕ) (tag : Option FragId) (ls : List Leaf) → ((a : LeafName) → times a ls ≤ 1) → KeysApart (leaf_pairs k tag ls)
pairs_once k tag [] h = tt
pairs_once k tag (l ∷ ls) h =
    let p = first_once l ls 0 (omega (arith, h l.name)) in
    (none_named l.name (k + 1) tag ls p.0, pairs_once (k + 1) tag ls (λ a. let le = fewer a l ls in omega (arith, h a, le)))

pub KeysApart-leaves : (k j : ℕ) (tag other : Option FragId) (ls ms : List Leaf) → ((a : LeafName) → times a ls + times a ms ≤ 1) → KeysApart (leaf_pairs k tag ls ++ leaf_pairs j other ms)
KeysApart-leaves k j tag other [] ms h = pairs_once j other ms (λ a. omega (arith, h a))
KeysApart-leaves k j tag other (l ∷ ls) ms h =
    let p = first_once l ls (times l.name ms) (h l.name) in (
      each_append (Other {A = Occurrence} (name_of l.name)) (leaf_pairs (k + 1) tag ls) (leaf_pairs j other ms) (none_named l.name (k + 1) tag ls p.0) (none_named l.name j other ms p.1),
      KeysApart-leaves (k + 1) j tag other ls ms (λ a. let le = fewer a l ls in omega (arith, h a, le)),
    )

-- ---- and so do their members

no_member : (a : LeafName) (p : Person) (ls : List Leaf) → times a ls ≡ 0 → has_name (name_of a) (map (leaf_member p) ls) ≡ false
no_member a p [] h = refl
no_member a p (l ∷ ls) h =
    let q = count_none (same_name l.name a) (times a ls) (sym (times-cons a l ls) ∙ h) in
    rw ((names-differ l.name a q.0).1, no_member a p ls q.1) refl

from_both : (a b : Bool) → a ≡ false → IsTrue b → IsTrue (not a && b)
from_both true b h k = absurd (cc)
from_both false b h k = k

pub apart-members : (p : Person) (ls : List Leaf) → ((a : LeafName) → times a ls ≤ 1) → IsTrue (apart (map (leaf_member p) ls))
apart-members p [] h = refl
apart-members p (l ∷ ls) h =
    let q = first_once l ls 0 (omega (arith, h l.name)) in
    from_both _ _ (no_member l.name p ls q.0) (apart-members p ls (λ a. let le = fewer a l ls in omega (arith, h a, le)))

-- a leaf has the name of no leaf before it
pub has_name-before : (p : Person) (ls : List Leaf) (i : ℕ) (d : Leaf) → i < length ls → ((a : LeafName) → times a ls ≤ 1) → has_name (name_of (get_or ls i d).name) (map (leaf_member p) (take i ls)) ≡ false
has_name-before p ls i d lt h =
    let ms = map (leaf_member p) ls in
    let within : i < length ms = rw (length-map ls (leaf_member p)) lt in
    ap (has_name (name_of (get_or ls i d).name)) (sym (take-map (leaf_member p) i ls))
    ∙ (ap (λ (m : Named Value). has_name m.name (take i ms)) (sym (get_or-map (leaf_member p) ls i d (leaf_member p d) lt))
    ∙ has_name-take ms i (leaf_member p d) within (apart-members p ls h))
