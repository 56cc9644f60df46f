-- What literals and type references are read as, kind by kind.
use Rattle.std.proofs.Common.{◌≡◌, sym, ◌∙◌, ap, ℕ, Bool, List, map}
use Rattle.gql_tree.specs.declared.Spot.{Spot}
use Rattle.gql_model.specs.declared.syntax.TypeRef.{TypeRef, TypeRef-F}
use Rattle.gql_model.specs.declared.syntax.TypeRef.TheFolds.{fold-roll-TypeRef}
use Rattle.gql_model.specs.declared.syntax.TypeRef.TheVariants.{rolls-Named, rolls-List as rolls-ListOf, rolls-NonNull}
use Rattle.gql_model.specs.declared.syntax.TypeRef.TheVariants as type
use Rattle.gql_model.specs.declared.syntax.Argument.{Argument, out-Argument}
use Rattle.gql_model.specs.declared.syntax.Literal.{Literal, Literal-F}
use Rattle.gql_model.specs.declared.syntax.Literal.TheFolds.{fold-roll-Literal, fold_out-Argument}
use Rattle.gql_model.specs.declared.syntax.Literal.TheVariants.{rolls-Int, rolls-Text, rolls-Bool, rolls-Null, rolls-Enum, rolls-List, rolls-Object}
use Rattle.gql_model.specs.declared.syntax.Literal.TheVariants as syntax
use Rattle.gql_model.specs.rules.Literals.{Written, number, text, truth, null, enum, list, object, Given, items_of, members_of, literal_level, argument_level, written, given}
use Rattle.gql_model.specs.rules.References.{Reference, to, list as list_of, non_null, reference_level, reference}

-- ---- type references

pub reference_Named : (name : List ℕ) (spot : Spot) → reference (type.Named name spot) ≡ to name spot
reference_Named name spot = ap reference (sym (rolls-Named name spot)) ∙ fold-roll-TypeRef Reference reference_level (TypeRef-F.Named name spot)

pub reference_List : (item : TypeRef) → reference (type.List item) ≡ list_of (reference item)
reference_List item = ap reference (sym (rolls-ListOf item)) ∙ fold-roll-TypeRef Reference reference_level (TypeRef-F.List item)

pub reference_NonNull : (inner : TypeRef) → reference (type.NonNull inner) ≡ non_null (reference inner)
reference_NonNull inner = ap reference (sym (rolls-NonNull inner)) ∙ fold-roll-TypeRef Reference reference_level (TypeRef-F.NonNull inner)

-- ---- literals

pub written_Int : (digits : List ℕ) (spot : Spot) → written (syntax.Int digits spot) ≡ number digits spot
written_Int digits spot = ap written (sym (rolls-Int digits spot)) ∙ fold-roll-Literal Written Given literal_level argument_level (Literal-F.Int digits spot)

pub written_Text : (t : List ℕ) (spot : Spot) → written (syntax.Text t spot) ≡ text t spot
written_Text t spot = ap written (sym (rolls-Text t spot)) ∙ fold-roll-Literal Written Given literal_level argument_level (Literal-F.Text t spot)

pub written_Bool : (b : Bool) (spot : Spot) → written (syntax.Bool b spot) ≡ truth b spot
written_Bool b spot = ap written (sym (rolls-Bool b spot)) ∙ fold-roll-Literal Written Given literal_level argument_level (Literal-F.Bool b spot)

pub written_Null : (spot : Spot) → written (syntax.Null spot) ≡ null spot
written_Null spot = ap written (sym (rolls-Null spot)) ∙ fold-roll-Literal Written Given literal_level argument_level (Literal-F.Null spot)

pub written_Enum : (name : List ℕ) (spot : Spot) → written (syntax.Enum name spot) ≡ enum name spot
written_Enum name spot = ap written (sym (rolls-Enum name spot)) ∙ fold-roll-Literal Written Given literal_level argument_level (Literal-F.Enum name spot)

pub written_List : (items : List Literal) (spot : Spot) → written (syntax.List items spot) ≡ list (items_of (map written items)) spot
written_List items spot = ap written (sym (rolls-List items spot)) ∙ fold-roll-Literal Written Given literal_level argument_level (Literal-F.List items spot)

pub written_Object : (members : List Argument) (spot : Spot) → written (syntax.Object members spot) ≡ object (members_of (map given members)) spot
written_Object members spot = ap written (sym (rolls-Object members spot)) ∙ fold-roll-Literal Written Given literal_level argument_level (Literal-F.Object members spot)

pub given-out : (it : Argument)
    → let a = out-Argument it in
    given it ≡ record { name = a.name; value = written a.value; spot = a.spot }
given-out it = fold_out-Argument Written Given literal_level argument_level it
