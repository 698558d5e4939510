use Rattle.std.proofs.Common.{refl}
use Rattle.remarks.proofs.Scanning.{scanned_past}
use Rattle.remarks.proofs.scan.Scan.pass.Goals as goal

pub returns : goal.returns
returns c =
    scanned_past c.args.text.now c.args.from c.args.end c.args.self.now _ c.requires.some c.requires.within c.requires.none c.requires.outside c.requires.scanned
    c.place_after-self.ensures refl
