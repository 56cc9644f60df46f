-- Look-ups among types.
use Rattle.std.proofs.Common.{◌≡◌, refl, sym, ◌∙◌, ap, Bool, true, false, cond, ◌||◌, Bor, List, [], ◌∷◌, map, Option, Some, None}
use Rattle.std.specs.List.{find}
use Rattle.std.specs.Prelude.{ℕ, option_map, is_some}
use Rattle.std.specs.Option.{option_copied}
use Rattle.std.proofs.lemmas.List.Folds.{list_any-append}
use Rattle.gql_model.specs.rules.Places.{stands_in, names_of}
use Rattle.gql_model.specs.rules.TypeParts.{Field, Input, Defined, built_in, is_input, type_named}
use Rattle.std.specs.Str.{bytes_eq}
use Rattle.gql_schema.specs.declared.defined.Defined as declared
use Rattle.gql_schema.specs.Seen.{defined, existing_among, input_object}
use Rattle.gql_schema.specs.declared.named.Named.{Named}

cond-map : {A B : Type 0} (f : A → B) (b : Bool) (x : A) (o : Option A) → cond b (Some (f x)) (option_map f o) ≡ option_map f (cond b (Some x) o)
cond-map f true x o = refl
cond-map f false x o = refl

pub find-map : {A B : Type 0} (p : B → Bool) (f : A → B) (xs : List A) → find p (map f xs) ≡ option_map f (find (λ x. p (f x)) xs)
find-map p f [] = refl
find-map p f (x ∷ xs) = ap (λ o. cond (p (f x)) (Some (f x)) o) (find-map p f xs) ∙ cond-map f (p (f x)) x (find (λ y. p (f y)) xs)

-- ---- types as the checkers see them

kinds_agree : (o : Option declared.Defined) → option_map (λ of. of.kind) o ≡ option_map (λ d. d.kind) (option_map defined o)
kinds_agree None = refl
kinds_agree (Some of) = refl

pub type_found : (ts : List declared.Defined) (name : List ℕ) → type_named (map defined ts) name ≡ option_map defined (find (λ of. bytes_eq of.name.now.name name) ts)
type_found ts name = find-map (λ d. bytes_eq d.name.name name) defined ts

pub kind_found : (ts : List declared.Defined) (name : List ℕ) (o : Option declared.Defined) → o ≡ find (λ of. bytes_eq of.name.now.name name) ts → option_map (λ of. of.kind) o ≡ option_map (λ d. d.kind) (type_named (map defined ts) name)
kind_found ts name o e = kinds_agree o ∙ ap (λ x. option_map (λ d. d.kind) (option_map defined x)) e ∙ ap (option_map (λ d. d.kind)) (sym (type_found ts name))

-- ---- names that exist

some-cond : {A : Type 0} (b : Bool) (x : A) (o : Option A) (c : Bool) → is_some o ≡ c → is_some (cond b (Some x) o) ≡ (b || c)
some-cond true x o c e = refl
some-cond false x o c e = e

found_is_named : (ts : List declared.Defined) (name : List ℕ) → is_some (find (λ of. bytes_eq of.name.now.name name) ts) ≡ stands_in name (map (λ d. d.name.name) (map defined ts))
found_is_named [] name = refl
found_is_named (of ∷ ts) name = some-cond (bytes_eq of.name.now.name name) of (find (λ of. bytes_eq of.name.now.name name) ts) (stands_in name (map (λ d. d.name.name) (map defined ts))) (found_is_named ts name)

some-copied : {A : Type 0} (o : Option (Bor A)) → is_some o ≡ is_some (option_copied o)
some-copied None = refl
some-copied (Some x) = refl

pub exists_if_found : (ts : List declared.Defined) (name : List ℕ) (o : Option (Bor declared.Defined)) → option_copied o ≡ find (λ of. bytes_eq of.name.now.name name) ts → stands_in name built_in ≡ false → is_some o ≡ stands_in name (existing_among (map defined ts))
exists_if_found ts name o e other =
    some-copied o
    ∙ ap is_some e
    ∙ found_is_named ts name
    ∙ sym (list_any-append (λ n. bytes_eq n name) built_in (map (λ d. d.name.name) (map defined ts)) ∙ ap (λ b. b || stands_in name (map (λ d. d.name.name) (map defined ts))) other)

-- ---- what a type of a name has

pub named_as : (ts : List declared.Defined) (name : List ℕ) (o : Option declared.Defined) → o ≡ find (λ of. bytes_eq of.name.now.name name) ts → option_map defined o ≡ type_named (map defined ts) name
named_as ts name o e = ap (option_map defined) e ∙ sym (type_found ts name)

abbrev pub interfaces_if : Option Defined → List (List ℕ)
interfaces_if None = []
interfaces_if (Some d) = names_of d.implements

abbrev pub members_if : Option Defined → List (List ℕ)
members_if None = []
members_if (Some d) = names_of d.members

abbrev pub values_if : Option Defined → List (List ℕ)
values_if None = []
values_if (Some d) = names_of d.values

abbrev pub fields_if : Option Defined → List Field
fields_if None = []
fields_if (Some d) = d.fields

abbrev pub inputs_if : Option Defined → List Input
inputs_if None = []
inputs_if (Some d) = d.inputs

abbrev pub object_if : Option Defined → Option (List Input)
object_if None = None
object_if (Some d) = cond (is_input d.kind) (Some d.inputs) None

object_by : (o : Option Defined) → object_if o ≡ cond (elim o as (λ x. Bool) [ None ↦ false | Some d ↦ is_input d.kind ]) (Some (elim o as (λ x. List Input) [ None ↦ [] | Some d ↦ d.inputs ])) None
object_by None = refl
object_by (Some d) = refl

pub object_found : (ts : List Defined) (name : List ℕ) → object_if (type_named ts name) ≡ input_object ts name
object_found ts name = object_by (type_named ts name)

-- ---- names that are listed

named_found : (ns : List Named) (name : List ℕ) → is_some (find (λ n. bytes_eq n.at.now.name name) ns) ≡ stands_in name (names_of (map (λ n. n.at.now) ns))
named_found [] name = refl
named_found (n ∷ ns) name = some-cond (bytes_eq n.at.now.name name) n (find (λ n. bytes_eq n.at.now.name name) ns) (stands_in name (names_of (map (λ n. n.at.now) ns))) (named_found ns name)

pub listed_if_found : (ns : List Named) (name : List ℕ) (o : Option (Bor Named)) → option_copied o ≡ find (λ n. bytes_eq n.at.now.name name) ns → is_some o ≡ stands_in name (names_of (map (λ n. n.at.now) ns))
listed_if_found ns name o e = some-copied o ∙ ap is_some e ∙ named_found ns name
