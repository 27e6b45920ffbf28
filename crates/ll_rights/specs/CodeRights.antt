-- The rights as the code has them.
-- Source: the tables of Rights.antt and NetRights.antt.
use Rattle.ll_rights.specs.declared.fs.FsRight.{FsRight}
use Rattle.ll_rights.specs.declared.fs.FsRight.TheVariants as fs
use Rattle.ll_rights.specs.declared.net.NetRight.{NetRight}
use Rattle.ll_rights.specs.declared.net.NetRight.TheVariants as net
use Rattle.ll_rights.specs.Rights as files
use Rattle.ll_rights.specs.NetRights as network

abbrev pub fs_right : FsRight → files.FsRight
fs_right fs.Execute = files.execute
fs_right fs.WriteFile = files.write_file
fs_right fs.ReadFile = files.read_file
fs_right fs.ReadDir = files.read_dir
fs_right fs.RemoveDir = files.remove_dir
fs_right fs.RemoveFile = files.remove_file
fs_right fs.MakeChar = files.make_char
fs_right fs.MakeDir = files.make_dir
fs_right fs.MakeReg = files.make_reg
fs_right fs.MakeSock = files.make_sock
fs_right fs.MakeFifo = files.make_fifo
fs_right fs.MakeBlock = files.make_block
fs_right fs.MakeSym = files.make_sym
fs_right fs.Refer = files.refer
fs_right fs.Truncate = files.truncate
fs_right fs.IoctlDev = files.ioctl_dev
fs_right fs.Other = files.other

abbrev pub net_right : NetRight → network.NetRight
net_right net.BindTcp = network.bind_tcp
net_right net.ConnectTcp = network.connect_tcp
net_right net.Other = network.other
