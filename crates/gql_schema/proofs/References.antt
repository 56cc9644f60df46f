-- What a type in use is read as, kind by kind.
use Rattle.std.proofs.Common.{◌≡◌, sym, ◌∙◌, ap, ℕ, List}
use Rattle.gql_tree.specs.declared.Spot.{Spot}
use Rattle.gql_model.specs.declared.syntax.TypeRef.{TypeRef, TypeRef-F}
use Rattle.gql_model.specs.declared.syntax.TypeRef.TheFolds.{fold-roll-TypeRef}
use Rattle.gql_model.specs.declared.syntax.TypeRef.TheVariants.{rolls-Named, rolls-List, rolls-NonNull}
use Rattle.gql_model.specs.declared.syntax.TypeRef.TheVariants as type
use Rattle.gql_model.specs.rules.References.{Reference, to, list, non_null, reference_level, reference}

pub reference_Named : (name : List ℕ) (spot : Spot) → reference (type.Named name spot) ≡ to name spot
reference_Named name spot = ap reference (sym (rolls-Named name spot)) ∙ fold-roll-TypeRef Reference reference_level (TypeRef-F.Named name spot)

pub reference_List : (item : TypeRef) → reference (type.List item) ≡ list (reference item)
reference_List item = ap reference (sym (rolls-List item)) ∙ fold-roll-TypeRef Reference reference_level (TypeRef-F.List item)

pub reference_NonNull : (inner : TypeRef) → reference (type.NonNull inner) ≡ non_null (reference inner)
reference_NonNull inner = ap reference (sym (rolls-NonNull inner)) ∙ fold-roll-TypeRef Reference reference_level (TypeRef-F.NonNull inner)
