-- `solver::tree::put_whole` meets its contract.
use mathlib.Core.Path.{◌≡◌, refl, sym}
use Rattle.theory.specs.Centered.{centered}
use Rattle.theory.specs.SignedClass.{signed_class}
use Rattle.theory.proofs.Classes.Tree.{tree_whole}
use Rattle.solver.specs.inner.Entry.{entry}
use Rattle.solver.proofs.Appended.{added_one}
use Rattle.solver.proofs.Node.{own_class}
use Rattle.solver.proofs.tree.put_whole.Goals as goal

pub returns : goal.returns
returns c =
    let x = c.args.node in
    let put : c.new.result ≡ entry (signed_class (centered x.power x.residue) x.level) = c.new.ensures in record {
      classes = (λ S p q w. record {
        added =
            rw (tree_whole S p x.left w, own_class x p q, ← put)
            (added_one c.new.result c.args.k c.args.out.now c.requires.3);
        is_whole = sym w;
      });
      live = refl;
    }
