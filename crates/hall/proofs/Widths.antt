-- The count of a sample as a signed width, whatever its fate, and that such counts add up: the position after any samples is the first one
-- moved by the sum of their widths.
use Rattle.std.proofs.Common.{◌≡◌, ℕ, ◌^◌, ◌<◌, List, []}
use Rattle.std.proofs.Common.{◌∷◌, ℤ, pos, ◌+ℤ◌, neg_ℤ, arith}
use Rattle.std.proofs.lemmas.Int.{ints}
use Rattle.hall.specs.Layout.{layout}
use Rattle.hall.specs.Fate.{fate}
use Rattle.hall.specs.Sample.{sampled, dead_sample, stray_sample, minus}
use Rattle.hall.specs.Turns.{signed_width, moved, fed, fed_width}
use Rattle.hall.specs.declared.Hall.{Hall}
use Rattle.hall.specs.declared.layout.Sensors.{Sensors}

moved_back : (position count : ℕ) → minus count position ≡ moved position (neg_ℤ (pos count))
moved_back position count = grind arith

pub signed_width_lem :
    (s : Sensors) (hall : Hall) (p : ℕ) (offset : ℤ)
    → hall.position < 2 ^ 32
    → (sampled s hall p offset).hall.position
    ≡ moved hall.position (signed_width (layout s) (fate (layout s) p hall.kept) hall.kept p)
unfolding sampled dead_sample stray_sample
signed_width_lem s hall p offset small = grind (arith, moved_back)

-- ---- two counts are their sum

pub moved_on : (position : ℕ) (a b : ℤ) → moved (moved position a) b ≡ moved position (a +ℤ b)
moved_on position a b = grind (arith, ints)

moved_small : (position : ℕ) (count : ℤ) → moved position count < 2 ^ 32
moved_small position count = grind arith

-- samples one after the other, with any patterns
pub widths_add :
    (s : Sensors) (offset : ℤ) (hall : Hall) (patterns : List ℕ)
    → hall.position < 2 ^ 32
    → (fed s hall patterns offset).position ≡ moved hall.position (fed_width s hall patterns offset)
widths_add s offset hall [] small = omega arith
widths_add s offset hall (p ∷ later) small =
    let next : Hall = (sampled s hall p offset).hall in
    grind (arith, widths_add s offset next later, signed_width_lem s hall p offset, moved_small, moved_on)
