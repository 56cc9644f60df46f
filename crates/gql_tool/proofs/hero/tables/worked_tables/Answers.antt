use Rattle.std.proofs.Common.{codes, is_some, option_map, refl}
use Rattle.serde_json.proofs.OnLiterals.{serde_json_on_literals}
use Rattle.gql_tool.specs.hero.HeroTables.{tables_of}
use Rattle.gql_tool.specs.hero.WorkedTables.{with_hero, with_cell, said}
use Rattle.gql_tool.proofs.hero_lemmas.Texts.{read_plain}
use Rattle.gql_tool.proofs.hero.tables.worked_tables.Goals as goal

pub returns-clause-sample : goal.returns-clause-sample
unfolding serde_json_on_literals
returns-clause-sample c = read_plain (λ t. option_map said (option_map tables_of t)) (with_hero (codes "{\"ref\":\"1\"}")) refl

pub returns-clause-second : goal.returns-clause-second
unfolding serde_json_on_literals
returns-clause-second c = read_plain (λ t. option_map (λ h. h.hero) t) (with_hero (codes "{\"ref\":\"2\"}")) refl

pub returns-clause-failed : goal.returns-clause-failed
unfolding serde_json_on_literals
returns-clause-failed c = read_plain (λ t. option_map (λ h. h.hero) t) (with_hero (codes "{\"error\":\"gone\"}")) refl

pub returns-clause-absent : goal.returns-clause-absent
unfolding serde_json_on_literals
returns-clause-absent c = read_plain (λ t. option_map (λ h. h.hero) t) (with_hero (codes "null")) refl

pub returns-clause-person : goal.returns-clause-person
unfolding serde_json_on_literals
returns-clause-person c = read_plain (λ t. option_map (λ h. h.persons) t) (with_cell (codes "\"age\":\"x\",\"age\":-7")) refl

pub returns-clause-query_row : goal.returns-clause-query_row
unfolding serde_json_on_literals
returns-clause-query_row c = read_plain (λ t. t) (with_hero (codes "{\"ref\":\"q\"}")) refl

pub returns-clause-no_row : goal.returns-clause-no_row
unfolding serde_json_on_literals
returns-clause-no_row c = read_plain (λ t. t) (with_hero (codes "{\"ref\":\"4\"}")) refl

pub returns-clause-two_members : goal.returns-clause-two_members
unfolding serde_json_on_literals
returns-clause-two_members c = read_plain (λ t. t) (with_hero (codes "{\"ref\":\"1\",\"x\":1}")) refl

pub returns-clause-plain_hero : goal.returns-clause-plain_hero
unfolding serde_json_on_literals
returns-clause-plain_hero c = read_plain (λ t. t) (with_hero (codes "\"1\"")) refl

pub returns-clause-least : goal.returns-clause-least
unfolding serde_json_on_literals
returns-clause-least c = read_plain (λ t. is_some t) (with_cell (codes "\"age\":-2147483648")) refl

pub returns-clause-below : goal.returns-clause-below
unfolding serde_json_on_literals
returns-clause-below c = read_plain (λ t. t) (with_cell (codes "\"age\":-2147483649")) refl

pub returns-clause-greatest : goal.returns-clause-greatest
unfolding serde_json_on_literals
returns-clause-greatest c = read_plain (λ t. is_some t) (with_cell (codes "\"age\":2147483647")) refl

pub returns-clause-above : goal.returns-clause-above
unfolding serde_json_on_literals
returns-clause-above c = read_plain (λ t. t) (with_cell (codes "\"age\":2147483648")) refl

pub returns-clause-number : goal.returns-clause-number
unfolding serde_json_on_literals
returns-clause-number c = read_plain (λ t. t) (with_cell (codes "\"name\":5")) refl

pub returns-clause-reference : goal.returns-clause-reference
unfolding serde_json_on_literals
returns-clause-reference c = read_plain (λ t. t) (with_cell (codes "\"boom\":{\"ref\":\"1\"}")) refl

pub returns-clause-twice : goal.returns-clause-twice
unfolding serde_json_on_literals
returns-clause-twice c = read_plain (λ t. t) (with_cell (codes "\"id\":\"1\"},{\"@id\":\"1\"")) refl
