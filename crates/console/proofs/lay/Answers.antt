-- The door says that it wrote the whole listing. Assumes nothing.
use Rattle.console.proofs.LayLaws.{never_short, wrote_whole}
use Rattle.console.proofs.lay.Goals as goal

pub unwrap-requires : goal.unwrap-requires
unwrap-requires c =
    let door = c.list_pattern in
    never_short c.args.text.now c.args.out.now door.new.out door.result c.requires door.ensures

pub returns : goal.returns
returns c =
    let door = c.list_pattern in
    wrote_whole c.args.text.now c.args.out.now door.new.out door.result c.unwrap.result c.requires door.ensures c.unwrap.ensures
