-- The sum of `image_size` fits, since no block has more than 55 bytes.
use Rattle.std.proofs.Common.{rules, tests, arith}
use Rattle.std.proofs.lemmas.Iterator.{YieldsList-from_slice}
use Rattle.std.proofs.lemmas.Iterator.Adapters.{fits_from_length, at_most_from_yields_List}
use Rattle.images.proofs.writer.image_size.Goals as goal

pub sum-requires-clause-fits : goal.sum-requires-clause-fits
sum-requires-clause-fits c =
    fits_from_length _ _ 15 _ (at_most_from_yields_List (YieldsList-from_slice c.args.blocks.now cc) (omega arith))
    c.map.ensures.closure (omega arith) (λ x r q k. search (rules, tests))
