-- What a literal is read as, kind by kind.
use Rattle.std.proofs.Common.{◌≡◌, sym, ◌∙◌, ap, ℕ, List, Bool, map}
use Rattle.gql_tree.specs.declared.delivery.Spot.{Spot}
use Rattle.gql_model.specs.declared.syntax.Literal.{Literal, Literal-F}
use Rattle.gql_model.specs.declared.syntax.Literal.TheFolds.{fold-roll-Literal}
use Rattle.gql_model.specs.declared.syntax.Literal.TheVariants.{rolls-Variable, rolls-Int, rolls-Text, rolls-Bool, rolls-Null, rolls-Enum, rolls-List, rolls-Object}
use Rattle.gql_model.specs.declared.syntax.Literal.TheVariants as literal
use Rattle.gql_model.specs.declared.syntax.Argument.{Argument}
use Rattle.gql_model.specs.rules.Literals.{Written, variable, number, text, truth, null, enum, list, object, Given, items_of, members_of, literal_level, argument_level, written, given}

pub written_Variable : (name : List ℕ) (spot : Spot) → written (literal.Variable name spot) ≡ variable name spot
written_Variable name spot = ap written (sym (rolls-Variable name spot)) ∙ fold-roll-Literal Written Given literal_level argument_level (Literal-F.Variable name spot)

pub written_Int : (digits : List ℕ) (spot : Spot) → written (literal.Int digits spot) ≡ number digits spot
written_Int digits spot = ap written (sym (rolls-Int digits spot)) ∙ fold-roll-Literal Written Given literal_level argument_level (Literal-F.Int digits spot)

pub written_Text : (t : List ℕ) (spot : Spot) → written (literal.Text t spot) ≡ text t spot
written_Text t spot = ap written (sym (rolls-Text t spot)) ∙ fold-roll-Literal Written Given literal_level argument_level (Literal-F.Text t spot)

pub written_Bool : (b : Bool) (spot : Spot) → written (literal.Bool b spot) ≡ truth b spot
written_Bool b spot = ap written (sym (rolls-Bool b spot)) ∙ fold-roll-Literal Written Given literal_level argument_level (Literal-F.Bool b spot)

pub written_Null : (spot : Spot) → written (literal.Null spot) ≡ null spot
written_Null spot = ap written (sym (rolls-Null spot)) ∙ fold-roll-Literal Written Given literal_level argument_level (Literal-F.Null spot)

pub written_Enum : (name : List ℕ) (spot : Spot) → written (literal.Enum name spot) ≡ enum name spot
written_Enum name spot = ap written (sym (rolls-Enum name spot)) ∙ fold-roll-Literal Written Given literal_level argument_level (Literal-F.Enum name spot)

pub written_List : (items : List Literal) (spot : Spot) → written (literal.List items spot) ≡ list (items_of (map written items)) spot
written_List items spot = ap written (sym (rolls-List items spot)) ∙ fold-roll-Literal Written Given literal_level argument_level (Literal-F.List items spot)

pub written_Object : (members : List Argument) (spot : Spot) → written (literal.Object members spot) ≡ object (members_of (map given members)) spot
written_Object members spot = ap written (sym (rolls-Object members spot)) ∙ fold-roll-Literal Written Given literal_level argument_level (Literal-F.Object members spot)
