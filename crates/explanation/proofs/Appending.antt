-- Facts that are added piece by piece.
use Rattle.std.proofs.Common.{◌≡◌, List, [], ◌++◌, Option, Some, None, refl, sym, ap, ◌∙◌, append_assoc, append-nil}
use Rattle.tables.specs.declared.inputs.Slot.{Slot}
use Rattle.tables.specs.declared.roles.Roles.{Roles}
use Rattle.tables.specs.Environment.{Environment}
use Rattle.tables.specs.Plan.{PlanParts}
use Rattle.settlement.specs.declared.acc.Acc.{Acc}
use Rattle.settlement.specs.declared.outcome.Outcome.{Outcome}
use Rattle.tables.specs.declared.environment.Answer.{Answer}
use Rattle.tables.specs.Environment.{answers_of}
use Rattle.explanation.specs.Steps.{amount_facts, computation_facts, roles_facts, settled_facts}
use Rattle.explanation.specs.Tables.{ok_part, tables_facts}
use Rattle.explanation.specs.Facts.{FactParts}

pub two : (s a b x y : List FactParts) → a ≡ s ++ x → b ≡ a ++ y → b ≡ s ++ (x ++ y)
two s a b x y one other = other ∙ ap (λ l. l ++ y) one ∙ append_assoc s x y

pub three : (s a b c x y z : List FactParts) → a ≡ s ++ x → b ≡ a ++ y → c ≡ b ++ z → c ≡ s ++ (x ++ (y ++ z))
three s a b c x y z one other last = two s a c x (y ++ z) one (two a b c y z other last)

pub four : (s a b c d x y z w : List FactParts) → a ≡ s ++ x → b ≡ a ++ y → c ≡ b ++ z → d ≡ c ++ w → d ≡ s ++ (x ++ (y ++ (z ++ w)))
four s a b c d x y z w one other third last = two s a d x (y ++ (z ++ w)) one (three a b c d y z w other third last)

pub five : (s a b c d e x y z w v : List FactParts) → a ≡ s ++ x → b ≡ a ++ y → c ≡ b ++ z → d ≡ c ++ w → e ≡ d ++ v → e ≡ s ++ (x ++ (y ++ (z ++ (w ++ v))))
five s a b c d e x y z w v one other third fourth last = two s a e x (y ++ (z ++ (w ++ v))) one (four a b c d e y z w v other third fourth last)

pub six : (s a b c d e f x y z w v u : List FactParts) → a ≡ s ++ x → b ≡ a ++ y → c ≡ b ++ z → d ≡ c ++ w → e ≡ d ++ v → f ≡ e ++ u
    → f ≡ s ++ (x ++ (y ++ (z ++ (w ++ (v ++ u)))))
six s a b c d e f x y z w v u one other third fourth fifth last = two s a f x (y ++ (z ++ (w ++ (v ++ u)))) one (five a b c d e f y z w v u other third fourth fifth last)

pub ten : (s a b c d e f g h i j p q r t u v w x y z : List FactParts) → a ≡ s ++ p → b ≡ a ++ q → c ≡ b ++ r → d ≡ c ++ t → e ≡ d ++ u → f ≡ e ++ v → g ≡ f ++ w → h ≡ g ++ x → i ≡ h ++ y
    → j ≡ i ++ z → j ≡ s ++ (p ++ (q ++ (r ++ (t ++ (u ++ (v ++ (w ++ (x ++ (y ++ z)))))))))
ten s a b c d e f g h i j p q r t u v w x y z l1 l2 l3 l4 l5 l6 l7 l8 l9 l10 =
    five s a b c d j p q r t (u ++ (v ++ (w ++ (x ++ (y ++ z))))) l1 l2 l3 l4 (six d e f g h i j u v w x y z l5 l6 l7 l8 l9 l10)

-- the roles and the amounts
pub settled_added : (s a b : List FactParts) (given : List Slot) (env : Environment) (plan : PlanParts) (roles : Roles) (acc : Acc) (o : Outcome) → plan.roles ≡ Some roles → env.tables ≡ plan.tables
    → a ≡ s ++ roles_facts given env roles → b ≡ a ++ amount_facts o.verdict given env roles acc o → b ≡ s ++ settled_facts plan.roles given plan (Some env.answers) acc o
settled_added s a b given env plan roles acc o has same one other =
    let whole : env ≡ record { tables = plan.tables; answers = env.answers } = λ i. record { tables = same i; answers = env.answers } in
    two s a b _ _ one other
    ∙ ap (λ (e : Environment). s ++ (roles_facts given e roles ++ amount_facts o.verdict given e roles acc o)) whole
    ∙ ap (λ (r : Option Roles). s ++ settled_facts r given plan (Some env.answers) acc o) (sym has)

-- the tables, and then the roles and the amounts
pub computed : (s a b : List FactParts) (plan : PlanParts) (given : List Slot) (acc : Acc) (o : Outcome) (answers : List (List Answer)) → Some answers ≡ ok_part (answers_of given [] plan.tables)
    → a ≡ s ++ tables_facts given [] plan.tables → b ≡ a ++ settled_facts plan.roles given plan (Some answers) acc o → b ≡ s ++ computation_facts plan given acc o
computed s a b plan given acc o answers value one other =
    two s a b _ _ one other ∙ ap (λ found. s ++ (tables_facts given [] plan.tables ++ settled_facts plan.roles given plan found acc o)) value

not_settled : (roles : Option Roles) (given : List Slot) (plan : PlanParts) (acc : Acc) (o : Outcome) → settled_facts roles given plan None acc o ≡ []
not_settled None given plan acc o = refl
not_settled (Some roles) given plan acc o = refl

pub stopped : (s a : List FactParts) (plan : PlanParts) (given : List Slot) (acc : Acc) (o : Outcome) → None ≡ ok_part (answers_of given [] plan.tables)
    → a ≡ s ++ tables_facts given [] plan.tables → a ≡ s ++ computation_facts plan given acc o
stopped s a plan given acc o none one =
    one ∙ ap (λ xs. s ++ xs) (sym (append-nil (tables_facts given [] plan.tables)) ∙ ap (λ xs. tables_facts given [] plan.tables ++ xs) (sym (not_settled plan.roles given plan acc o)))
    ∙ ap (λ found. s ++ (tables_facts given [] plan.tables ++ settled_facts plan.roles given plan found acc o)) none
