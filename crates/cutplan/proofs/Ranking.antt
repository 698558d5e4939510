-- The ranking of all rules of a table, restricted to a mask.
use Rattle.std.proofs.Common.{◌≡◌, ℕ, ◌≤◌, ◌&&◌, List, [], ◌∷◌, length, filter, Option, Some, None, ap, sym, ◌∙◌, arith}
use Rattle.std.specs.List.{find, range_with_len}
use Rattle.std.specs.Option.{IfSome}
use Rattle.std.proofs.lemmas.Bool.{lt-ltb}
use Rattle.tables.specs.declared.hit.Hit.TheVariants.{P}
use Rattle.tables.specs.declared.table.Table.{Table}
use Rattle.tables.specs.HitPolicy.{by_hit, of_rule}
use Rattle.tables.specs.Priority.{all_ranked, highest_rule, in_priority_order, RankedOnce}
use Rattle.cutplan.specs.CompiledAnswers.{is_in_mask, ordered_by, ranked_rules}
use Rattle.cutplan.specs.Masks.{has_rule, rules_in}
use Rattle.cutplan.proofs.MaskLists.{filter_alike}

-- no table has more rules than a mask has bits
rules_within : (count : ℕ) (mask : List ℕ) → count ≤ 256 → rules_in count mask ≡ filter (is_in_mask mask) (range_with_len 0 count)
rules_within count mask few = filter_alike (has_rule mask) (is_in_mask mask) 0 count (λ k low high. sym (ap (λ b. b && has_rule mask k) (lt-ltb k 256 (omega (arith, few, high)))))

-- the rules of the mask in the order of all rules are in priority order
pub ranked_mask : RankedOnce → (t : Table) (mask ranked : List ℕ) → length t.rules ≤ 256 → ranked ≡ filter (is_in_mask mask) (all_ranked t) → ranked ≡ in_priority_order t (rules_in (length t.rules) mask)
ranked_mask once t mask ranked few is = is ∙ sym (once t (is_in_mask mask)).order ∙ ap (in_priority_order t) (sym (rules_within (length t.rules) mask few))

-- under Priority, the first rule of the mask in the order of all rules decides
pub first_decides : RankedOnce → (t : Table) (mask rules order : List ℕ) (found : Option ℕ) → length t.rules ≤ 256 → t.hit ≡ P → order ≡ ranked_rules t → rules ≡ rules_in (length t.rules) mask
    → found ≡ find (is_in_mask mask) order → IfSome found (λ rule. (number : ℕ) → by_hit t.hit number t rules ≡ by_hit t.hit number t (rule ∷ []))
first_decides once t mask rules order None few hit order_is rules_is is = tt
first_decides once t mask rules order (Some rule) few hit order_is rules_is is = λ number.
    let ranked = once t (is_in_mask mask) in
    let whole : order ≡ all_ranked t = order_is ∙ ap (λ h. ordered_by h t) hit in
    let highest : highest_rule t rules ≡ Some rule =
    ap (highest_rule t) (rules_is ∙ rules_within (length t.rules) mask few) ∙ ranked.first ∙ ap (find (is_in_mask mask)) (sym whole) ∙ sym is in
    ap (λ h. by_hit h number t rules) hit ∙ ap (of_rule number t) (highest ∙ sym (ranked.alone rule)) ∙ sym (ap (λ h. by_hit h number t (rule ∷ [])) hit)
